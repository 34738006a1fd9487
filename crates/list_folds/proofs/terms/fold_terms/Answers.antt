-- `list_folds::terms::fold_terms` meets its contract.
use native.Mathlib.Omega.{arith}
use Rattle.list_folds.specs.Terms.{fold_terms}
use Rattle.list_folds.proofs.WriteLaws.{push-more, push-most}
use Rattle.list_folds.proofs.TermLaws.{rows-most}
use Rattle.list_folds.proofs.terms.fold_terms.Goals as goal

pub push_last-requires : goal.push_last-requires
push_last-requires c =
    let a = c.args in
    (a.columns.now.readable.room.greatest, omega (arith, c.requires.1, c.first_term-first.ensures.0, push-most c.push_pairs-all.ensures, rows-most a.t.mixed a.columns.now.width a.columns.now.limbs.now a.r a.columns.now.width))

pub returns : goal.returns
unfolding fold_terms
returns c =
    push-more (push-more (c.first_term-first.ensures.1 _) c.push_pairs-all.ensures) c.push_last.ensures
