-- `names::library::library_number` meets its contract: the tests are those of the definition, in its order.
use mathlib.Core.Path.{◌∙◌, sym}
use Rattle.names.proofs.Procedures.{number_is}
use Rattle.names.proofs.library.library_number.Goals as goal

pub returns-then-same_text : goal.returns-then-same_text
returns-then-same_text c = number_is _ _ (rw (sym c.same_text.ensures ∙ c.if-same_text.true))

pub returns-then-same_text-2 : goal.returns-then-same_text-2
returns-then-same_text-2 c = number_is _ _ (rw (sym c.same_text.ensures ∙ c.if-same_text.false, sym c.same_text-else-same_text.ensures ∙ c.if-same_text-2.true))

pub returns-then-same_text-3 : goal.returns-then-same_text-3
returns-then-same_text-3 c = number_is _ _ (rw (sym c.same_text.ensures ∙ c.if-same_text.false, sym c.same_text-else-same_text.ensures ∙ c.if-same_text-2.false, sym c.same_text-else-same_text-2.ensures ∙ c.if-same_text-3.true))

pub returns-then-same_text-4 : goal.returns-then-same_text-4
returns-then-same_text-4 c = number_is _ _ (rw (sym c.same_text.ensures ∙ c.if-same_text.false, sym c.same_text-else-same_text.ensures ∙ c.if-same_text-2.false, sym c.same_text-else-same_text-2.ensures ∙ c.if-same_text-3.false, sym c.same_text-else-same_text-3.ensures ∙ c.if-same_text-4.true))

pub returns-then-same_text-5 : goal.returns-then-same_text-5
returns-then-same_text-5 c = number_is _ _ (rw (sym c.same_text.ensures ∙ c.if-same_text.false, sym c.same_text-else-same_text.ensures ∙ c.if-same_text-2.false, sym c.same_text-else-same_text-2.ensures ∙ c.if-same_text-3.false, sym c.same_text-else-same_text-3.ensures ∙ c.if-same_text-4.false, sym c.same_text-else-same_text-4.ensures ∙ c.if-same_text-5.true))

pub returns-then-same_text-6 : goal.returns-then-same_text-6
returns-then-same_text-6 c = number_is _ _ (rw (sym c.same_text.ensures ∙ c.if-same_text.false, sym c.same_text-else-same_text.ensures ∙ c.if-same_text-2.false, sym c.same_text-else-same_text-2.ensures ∙ c.if-same_text-3.false, sym c.same_text-else-same_text-3.ensures ∙ c.if-same_text-4.false, sym c.same_text-else-same_text-4.ensures ∙ c.if-same_text-5.false, sym c.same_text-else-same_text-5.ensures ∙ c.if-same_text-6.true))

pub returns-then-same_text-7 : goal.returns-then-same_text-7
returns-then-same_text-7 c = number_is _ _ (rw (sym c.same_text.ensures ∙ c.if-same_text.false, sym c.same_text-else-same_text.ensures ∙ c.if-same_text-2.false, sym c.same_text-else-same_text-2.ensures ∙ c.if-same_text-3.false, sym c.same_text-else-same_text-3.ensures ∙ c.if-same_text-4.false, sym c.same_text-else-same_text-4.ensures ∙ c.if-same_text-5.false, sym c.same_text-else-same_text-5.ensures ∙ c.if-same_text-6.false, sym c.same_text-else-same_text-6.ensures ∙ c.if-same_text-7.true))

pub returns-then-same_text-8 : goal.returns-then-same_text-8
returns-then-same_text-8 c = number_is _ _ (rw (sym c.same_text.ensures ∙ c.if-same_text.false, sym c.same_text-else-same_text.ensures ∙ c.if-same_text-2.false, sym c.same_text-else-same_text-2.ensures ∙ c.if-same_text-3.false, sym c.same_text-else-same_text-3.ensures ∙ c.if-same_text-4.false, sym c.same_text-else-same_text-4.ensures ∙ c.if-same_text-5.false, sym c.same_text-else-same_text-5.ensures ∙ c.if-same_text-6.false, sym c.same_text-else-same_text-6.ensures ∙ c.if-same_text-7.false, sym c.same_text-else-same_text-7.ensures ∙ c.if-same_text-8.true))

pub returns-then-same_text-9 : goal.returns-then-same_text-9
returns-then-same_text-9 c = number_is _ _ (rw (sym c.same_text.ensures ∙ c.if-same_text.false, sym c.same_text-else-same_text.ensures ∙ c.if-same_text-2.false, sym c.same_text-else-same_text-2.ensures ∙ c.if-same_text-3.false, sym c.same_text-else-same_text-3.ensures ∙ c.if-same_text-4.false, sym c.same_text-else-same_text-4.ensures ∙ c.if-same_text-5.false, sym c.same_text-else-same_text-5.ensures ∙ c.if-same_text-6.false, sym c.same_text-else-same_text-6.ensures ∙ c.if-same_text-7.false, sym c.same_text-else-same_text-7.ensures ∙ c.if-same_text-8.false, sym c.same_text-else-same_text-8.ensures ∙ c.if-same_text-9.true))

pub returns-then-same_text-10 : goal.returns-then-same_text-10
returns-then-same_text-10 c = number_is _ _ (rw (sym c.same_text.ensures ∙ c.if-same_text.false, sym c.same_text-else-same_text.ensures ∙ c.if-same_text-2.false, sym c.same_text-else-same_text-2.ensures ∙ c.if-same_text-3.false, sym c.same_text-else-same_text-3.ensures ∙ c.if-same_text-4.false, sym c.same_text-else-same_text-4.ensures ∙ c.if-same_text-5.false, sym c.same_text-else-same_text-5.ensures ∙ c.if-same_text-6.false, sym c.same_text-else-same_text-6.ensures ∙ c.if-same_text-7.false, sym c.same_text-else-same_text-7.ensures ∙ c.if-same_text-8.false, sym c.same_text-else-same_text-8.ensures ∙ c.if-same_text-9.false, sym c.same_text-else-same_text-9.ensures ∙ c.if-same_text-10.true))

pub returns-then-same_text-11 : goal.returns-then-same_text-11
returns-then-same_text-11 c = number_is _ _ (rw (sym c.same_text.ensures ∙ c.if-same_text.false, sym c.same_text-else-same_text.ensures ∙ c.if-same_text-2.false, sym c.same_text-else-same_text-2.ensures ∙ c.if-same_text-3.false, sym c.same_text-else-same_text-3.ensures ∙ c.if-same_text-4.false, sym c.same_text-else-same_text-4.ensures ∙ c.if-same_text-5.false, sym c.same_text-else-same_text-5.ensures ∙ c.if-same_text-6.false, sym c.same_text-else-same_text-6.ensures ∙ c.if-same_text-7.false, sym c.same_text-else-same_text-7.ensures ∙ c.if-same_text-8.false, sym c.same_text-else-same_text-8.ensures ∙ c.if-same_text-9.false, sym c.same_text-else-same_text-9.ensures ∙ c.if-same_text-10.false, sym c.same_text-else-same_text-10.ensures ∙ c.if-same_text-11.true))

pub returns-else-same_text-11 : goal.returns-else-same_text-11
returns-else-same_text-11 c = number_is _ _ (rw (sym c.same_text.ensures ∙ c.if-same_text.false, sym c.same_text-else-same_text.ensures ∙ c.if-same_text-2.false, sym c.same_text-else-same_text-2.ensures ∙ c.if-same_text-3.false, sym c.same_text-else-same_text-3.ensures ∙ c.if-same_text-4.false, sym c.same_text-else-same_text-4.ensures ∙ c.if-same_text-5.false, sym c.same_text-else-same_text-5.ensures ∙ c.if-same_text-6.false, sym c.same_text-else-same_text-6.ensures ∙ c.if-same_text-7.false, sym c.same_text-else-same_text-7.ensures ∙ c.if-same_text-8.false, sym c.same_text-else-same_text-8.ensures ∙ c.if-same_text-9.false, sym c.same_text-else-same_text-9.ensures ∙ c.if-same_text-10.false, sym c.same_text-else-same_text-10.ensures ∙ c.if-same_text-11.false))
