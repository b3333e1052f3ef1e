-- `names::prepare` meets its contract: an index of zeroes is that of no token, and its length stays.
use Prim.Native.Nat.{ℕ}
use mathlib.Core.Path.{◌∙◌, ap}
use borrow.Author.Rules.{rules}
use lib.ListN.{replicate}
use Rattle.names.proofs.Noting.{index_none}
use Rattle.names.proofs.prepare.Goals as goal

pub fill-requires : goal.fill-requires
fill-requires c = search index_none

pub returns : goal.returns
returns c =
    let same = c.fill.auto.index
    ∙ c.clear_words.auto.words in
    record { words = search rules; cleared = c.clear_words-2.ensures ∙ ap (λ (n : ℕ). replicate n 0) same }
