mod ArgumentLaws
mod FigureLaws
