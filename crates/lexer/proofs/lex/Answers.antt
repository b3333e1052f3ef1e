-- `lexer::lex` meets its contract: the table is the list of all classes, which is computed.
-- Assumes nothing.
use mathlib.Core.Path.{refl}
use Rattle.meaning.specs.Basics.{stands_in}
use Rattle.meaning.specs.Byte.{is_space, is_letter, is_digit, is_quote, is_sign, class_of}
use Rattle.lexer.specs.Lexing.{classes_from}
use Rattle.lexer.proofs.lex.Goals as goal

pub lex_by-requires : goal.lex_by-requires
unfolding classes_from class_of is_space is_letter is_digit is_quote is_sign stands_in
lex_by-requires c = record {
  classes_value = refl;
  program_len_bound = c.requires;
}
