use Rattle.library.proofs.ProcedureLaws.{text_count, text_kinds, text_made}
use Rattle.library.proofs.draw_text.Goals as goal

pub returns-then-n-ne3 : goal.returns-then-n-ne3
returns-then-n-ne3 c = search text_count

pub returns-then-not-point_and_text : goal.returns-then-not-point_and_text
returns-then-not-point_and_text c = search text_kinds

pub returns : goal.returns
returns c = search text_made
