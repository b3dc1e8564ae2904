mod FirstLines
mod TrimmedTexts
