mod FileLaws
mod FirstWords
mod OptionDepths
