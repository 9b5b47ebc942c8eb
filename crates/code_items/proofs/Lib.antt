pub mod OperationForms
pub mod Values
pub mod Assigned
pub mod Alternatives
pub mod ObjectForms
pub mod ValuesOfObjects
pub mod Properties
pub mod CodeForms
pub mod ListRounds
pub mod ArgumentValues
pub mod BoxedForms
mod Acts
mod StatementCounts
mod Unchanged
mod Standing
mod Needs
mod Conditions
mod Held
mod Running
mod Leads
mod Steps
mod Chosen
mod Truths
mod Evaluated
mod Placed
mod Arguments
mod LastAside
mod Calls
mod Operations
mod Equalities
mod Logical
mod Assignments
mod Entries
mod ObjectParts
mod ObjectValues
mod ObjectConditions
mod EachValue
mod Untils
mod Statements
mod Conditionals
mod Loops
mod ObjectStatements
mod ObjectLoops
mod Groups
mod Switches
mod Routines
mod Follows
mod Fine
mod FineValues
mod FineObjects
mod EachFine
mod Within
mod Words
mod Samples
mod ObjectSamples
pub mod Trees
pub mod Tests
pub mod Rounds
pub mod SwitchCases
pub mod Actions
