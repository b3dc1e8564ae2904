mod MoreLines
mod StringKeys
