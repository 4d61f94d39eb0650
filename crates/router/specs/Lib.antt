-- Links, the routing rule, why a flow didn't enter and what an exit writes, in 01's and 02's words.
pub mod Links
pub mod Rule
pub mod Reasons
pub mod Delivery
