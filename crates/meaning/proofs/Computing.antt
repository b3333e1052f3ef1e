-- All definitions at once, for proofs that compute with them: such a proof says `unfolding everything`.
use Rattle.meaning.specs.Basics
use Rattle.meaning.specs.Byte
use Rattle.meaning.specs.Token
use Rattle.meaning.specs.Grammar
use Rattle.meaning.specs.Integer
use Rattle.meaning.specs.Figure
use Rattle.meaning.specs.Value
use Rattle.meaning.specs.State
use Rattle.meaning.specs.Run
use Rattle.meaning.specs.Group
use Rattle.meaning.specs.Operator
use Rattle.meaning.specs.Library
use Rattle.meaning.specs.Evaluate
use Rattle.meaning.specs.Execute
use Rattle.meaning.specs.Procedure
use Rattle.meaning.specs.Picture
use Rattle.meaning.specs.Program
use Rattle.meaning.specs.Book
use Rattle.meaning.specs.Call

unfoldable pub everything : Unit {0}
unfolding Basics.if◌then◌otherwise◌ Basics.same_text Basics.stands_in Basics.span Basics.laid_over Byte.is_space Byte.is_letter
    Byte.is_digit Byte.is_name_part Byte.is_quote Byte.is_sign Byte.class_of Token.word_kind Token.is_double Token.front
    Token.prepend Token.starting Token.scan Token.tokens_of Grammar.after Grammar.expect Grammar.numeral_from
    Grammar.operator_of Grammar.opening Grammar.arguments_from Grammar.arguments Grammar.primary Grammar.operand
    Grammar.operated Grammar.expression_in Grammar.expression Grammar.declaration Grammar.returning
    Grammar.target_of Grammar.assignment Grammar.simple Grammar.guarded Grammar.begins_statement Grammar.iteration Grammar.statements_from Grammar.statement_in
    Grammar.statement Grammar.parameters_from Grammar.parameters Grammar.procedure
    Grammar.procedures_from Grammar.procedure_named Grammar.with_main Grammar.procedures Grammar.place_of Grammar.read_of
    Grammar.parsed Grammar.reading Integer.bits Integer.wrap Integer.sum Integer.difference Integer.product
    Integer.quotient Integer.remainder Integer.amount Integer.shifted_left Integer.shifted_right Integer.half
    Integer.same_integer Integer.same_integers Integer.is_negative Figure.moved Figure.plus_y Figure.minus_y
    Figure.plus_x Figure.minus_x Figure.scaled Figure.scaled_up Figure.scaled_down Figure.centre_x Figure.centre_y Figure.connecting
    Figure.text_on Figure.figure_kind Figure.numbers_of Figure.text_of Figure.same_figure Value.kind_of State.value_in State.is_some
    State.assigned State.with_shape State.by_content State.components_in State.destroy State.living State.shape_in State.shapes_held State.shapes_held_by State.fresh
    State.key_of State.same_key State.entry_in State.overwritten Run.go_on Run.◌>>=◌ Run.give Run.fail Run.spend Run.give_back
    Run.refuse Run.current Run.become Group.spend_each Group.new_shape Group.each Group.destroying Group.remade Group.figures_of Group.pairwise Group.alike Operator.is_dead Operator.usable
    Operator.with_integer Operator.with_string
    Operator.with_boolean Operator.with_table Operator.with_shape_number Operator.with_figure Operator.with_group
    Operator.new_string Operator.calculated Operator.compared Operator.remaindered Operator.joined
    Operator.equality Operator.answered Operator.equated Operator.operate_on Operator.operate Library.library_of
    Library.with_none Library.with_one Library.with_two Library.with_three Library.with_four Library.shape_numbers Library.draw Library.draw_figure
    Library.perform Library.all_usable Library.call_library Evaluate.looked_up Evaluate.variable Evaluate.new_table
    Evaluate.keyed Evaluate.entry_of Evaluate.evaluate Evaluate.evaluate_all Execute.continue Execute.declaring Execute.copied
    Execute.assigning Execute.storing Execute.updating Execute.looping Execute.declaring_once Execute.binding Execute.turns Execute.iterating Execute.execute Execute.execute_all
    Procedure.is_among Procedure.any_twice Procedure.in_library Procedure.doubled Procedure.assigning_all Procedure.returned_by
    Procedure.invoking Procedure.found Procedure.calling
    Picture.digits_within Picture.digits_of Picture.decimal Picture.attribute Picture.plain_line Picture.side_start Picture.absolute Picture.turned Picture.line_of Picture.lines_of
    Picture.picture_of Program.entering Program.sheet Program.sized Program.named_apart Program.understood Program.painting
    Program.performing Program.specified Program.cut Program.beginning Book.resource_number Book.added Book.lowered Book.fits
    Book.book Book.shortage_of Book.length_needed Book.answer_to Book.settled Book.booked Call.in_range Call.needed
    Call.long_enough Call.admitted Call.granted Call.run_of Call.answer Call.work_after Call.out_after_end Call.out_after
everything = tt
