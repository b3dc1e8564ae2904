mod LinesInOrder
mod TextIsLong
