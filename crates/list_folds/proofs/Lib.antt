-- WriteLaws: a fold term by term. TermLaws: the terms. ColumnLaws: the columns, and the next one.
-- FoldedLaws: the folds of several coordinates.
pub mod WriteLaws
pub mod TermLaws
pub mod ColumnLaws
pub mod FoldedLaws
