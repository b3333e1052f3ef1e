-- `tokens::text::same_text` meets its contract: slices are compared byte by byte.
use mathlib.Core.Path.{◌∙◌}
use Rattle.tokens.proofs.Texts.{same_bytes}
use Rattle.tokens.proofs.text.same_text.Goals as goal

pub returns : goal.returns
returns c = c.eq.ensures ∙ same_bytes c.args.x.now c.args.y.now
