pub mod NotForAll
