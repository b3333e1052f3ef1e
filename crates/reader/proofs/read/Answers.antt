-- `reader::read` meets its contract: a stray byte, too many tokens, or the words of the tokens in front of the slice, which `parse` reads.
use Rattle.reader.proofs.Ways.{read_stray, read_many, read_few, read_parsed}
use Rattle.reader.proofs.read.Goals as goal

pub returns-then-n-gt8192 : goal.returns-then-n-gt8192
returns-then-n-gt8192 c = read_many _ _ _ c.requires _ _
    c.lex-found.ensures _ c.in-Ok.is c.if-n-gt8192.true _
    c.place_of.ensures _ _

pub parse-requires : goal.parse-requires
parse-requires c = read_few _ _ _ c.requires _ _
    c.lex-found.ensures _ c.in-Ok.is c.if-n-gt8192.false

pub returns-in-Err : goal.returns-in-Err
returns-in-Err c = read_stray _ _ _ c.requires _ _ c.lex-found.ensures _
    c.in-Err.is _ _

pub returns-else-n-gt8192 : goal.returns-else-n-gt8192
returns-else-n-gt8192 c = read_parsed _ _ _ _ _ c.parse.ensures
