pub mod Prologue
