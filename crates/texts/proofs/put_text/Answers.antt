-- `texts::put_text` meets its contract: the store before the place is read, and the store behind it written.
-- Assumes nothing.
use Rattle.texts.proofs.Laws.{text_lays}
use Rattle.texts.proofs.put_text.Goals as goal

pub returns : goal.returns
returns c =
    text_lays _ _ _ _ _ c.requires _ _ _ c.split_at_mut-before.ensures.front c.split_at_mut-before.ensures.back c.text_of-text.ensures _ _
    c.write_bytes.ensures
