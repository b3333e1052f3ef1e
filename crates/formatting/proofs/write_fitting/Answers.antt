-- `formatting::write_fitting` meets its contract: the length is known before a byte is written.
use Rattle.formatting.proofs.Answering.{text_too_long, out_too_short, text_fits}
use Rattle.formatting.proofs.write_fitting.Goals as goal

pub returns-then-length-gt-LONGEST : goal.returns-then-length-gt-LONGEST
returns-then-length-gt-LONGEST c = text_too_long _ _ _ c.requires _ c.write_text-length.ensures c.if-length-gt-LONGEST.true

pub returns-then-out-length : goal.returns-then-out-length
returns-then-out-length c = out_too_short _ _ _ c.requires _ c.write_text-length.ensures
    c.if-length-gt-LONGEST.false c.if-out-length.true

pub returns : goal.returns
returns c = text_fits _ _ _ c.requires _
    c.write_text-length.ensures c.if-length-gt-LONGEST.false
    c.if-out-length.false _ _ c.write_text.ensures
