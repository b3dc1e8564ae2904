mod LinesChanged
mod LinesOfBytes
mod LinesReplaced
mod NoChangeLeftOut
mod WordsAsked
