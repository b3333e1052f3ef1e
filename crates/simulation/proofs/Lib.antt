pub mod Binding
pub mod Listed
mod Index
mod Indexing
mod Frames
mod Holding
pub mod Results
mod Counting
mod Moving
mod Arguments
pub mod Usable
pub mod Naming
mod Scopes
pub mod Variables
mod Growing
mod Shapes
mod Grouping
mod Walking
mod Touching
mod Destroying
pub mod Chaining
mod Clearing
mod Texts
mod Figures
mod Equality
mod Remaking
mod Alike
mod Asked
mod Operators
mod Keys
mod Lookup
mod Library
pub mod Showing
mod Stacking
mod Under
mod Expressions
pub mod Flows
pub mod Declaring
mod Assigning
mod Kept
mod Storing
mod Hollowing
mod Marking
mod Innermost
mod Paths
mod Unmarking
mod Remaining
mod RemainingLaws
mod Levels
mod Searching
mod Climbing
mod Turning
mod Iterating
mod OverGroups
mod Nesting
mod Looping
mod Inside
mod Dispatching
mod Statements
mod Opening
mod Lengths
mod Parameters
mod Calling
mod Returning
pub mod Performing
pub mod Invoking
mod Quoted
pub mod Body
pub mod Beginning
