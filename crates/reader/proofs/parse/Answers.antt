-- `reader::parse` meets its contract: the names are prepared, and what the grammar reads of the prepared words is what the meaning reads of the program.
use mathlib.Core.Path.{◌∙◌, ap}
use Rattle.std.specs.Prelude.{Err}
use Rattle.reader.proofs.Ways.{clear, parse_formed, parse_twice, parse_misfit}
use Rattle.reader.proofs.parse.Goals as goal

pub parse-requires-clause-words_value : goal.parse-requires-clause-words_value
parse-requires-clause-words_value c = clear _ _ _ c.requires _ _ c.prepare.ensures.words c.prepare.ensures.cleared

pub returns-in-Ok : goal.returns-in-Ok
returns-in-Ok c = parse_formed _ _ _ c.requires _ _ c.prepare.ensures.words c.prepare.ensures.cleared _ _ c.parse.ensures _ c.in-Ok.is

pub returns-in-Err-Twice : goal.returns-in-Err-Twice
returns-in-Err-Twice c = parse_twice _ _ _ c.requires _ _ c.prepare.ensures.words c.prepare.ensures.cleared _ _ c.parse.ensures _ (c.in-Err-Twice.is ∙ ap Err c.in-Err-Twice.field-0-is)

pub returns-in-Err-Misfit : goal.returns-in-Err-Misfit
returns-in-Err-Misfit c =
    parse_misfit _ _ _ c.requires _ _ c.prepare.ensures.words c.prepare.ensures.cleared _ _ c.parse.ensures _ _ (c.in-Err-Misfit.is ∙ ap Err c.in-Err-Misfit.field-0-is) c.place_among.ensures
