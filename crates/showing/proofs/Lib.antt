mod ShowLaws
mod WriteLaws
mod Words
