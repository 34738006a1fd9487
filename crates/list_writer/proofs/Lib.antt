-- ListLaws: a whole list, by its parts. CallLaws: the answers and buffers of the calls.
pub mod ListLaws
pub mod CallLaws
