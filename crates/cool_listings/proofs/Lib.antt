mod ShortNames
mod TreesOfTokens
mod PiecesOfFiles
mod WordsAsked
mod ColumnsFit
mod LinesLeft
mod TreesOfFiles
