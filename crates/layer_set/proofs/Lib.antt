pub mod Loading
pub mod Nearest
pub mod RuleKeys
pub mod RuleTables
pub mod Putting
