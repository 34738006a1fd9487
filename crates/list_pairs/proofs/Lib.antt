-- PutLaws: gates that are stored one after another, those of pairs, and where a part is stored.
pub mod PutLaws
