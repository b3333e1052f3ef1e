mod RemakeLaws
mod RemakingLaws
