pub mod Figures
mod MeasureLaws
