-- The laws of links, of the routing rule, of why a flow didn't enter and of a packet's path under the rule.
pub mod Links
pub mod Rule
pub mod Entrant
pub mod Reasons
pub mod Limit
pub mod Path
pub mod InPlace
pub mod Delivery
