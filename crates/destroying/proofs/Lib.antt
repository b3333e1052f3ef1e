mod DestroyLaws
mod SceneLaws
