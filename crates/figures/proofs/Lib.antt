mod ChangeLaws
mod ComparingLaws
