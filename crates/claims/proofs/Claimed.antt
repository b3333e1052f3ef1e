-- The claims of specs/Claims, each proved.
use Rattle.claims.specs.Claims.{ReadingErrors, LanguageErrors, BeginningsExtend, BeginningsFill, EndedStays, NeededIsBounded, BeginningsDecide, AlwaysAnswered, NumbersWriteNothing}
use Rattle.claims.specs.Claims.{PicturesFillTheFront, CheckingTakesNothing, UnrunTakesNothing, UnrunIsRefused, OthersTakeAStep, LargerGrant}
use Rattle.claims.specs.Claims.{ShortageExact, CallsUnderWay, ReturnsGiveBack, NoneUnderWay, LengthIsTold, DrawnIsTold}
use Rattle.claims.specs.Claims.{ToldIsDrawn, NumbersStay, EndAlike, FittingIsRun, AnswersAreBeginnings, PicturesAreBeginnings, SizesNotNegative, OthersStay, ComponentsAreOlder, DepthsSuffice}
use Rattle.claims.proofs.Ends
use Rattle.claims.proofs.Beginnings
use Rattle.claims.proofs.Answers
use Rattle.claims.proofs.Lent
use Rattle.claims.proofs.Pictures
use Rattle.claims.proofs.Refusals
use Rattle.claims.proofs.Shortages
use Rattle.claims.proofs.Told
use Rattle.claims.proofs.UnderWay
use Rattle.claims.proofs.Unrun
use Rattle.claims.proofs.Alike
use Rattle.claims.proofs.Sizes
use Rattle.claims.proofs.Components
use Rattle.claims.proofs.Depths

pub beginnings_extend : BeginningsExtend
beginnings_extend = Beginnings.beginnings_extend

pub beginnings_fill : BeginningsFill
beginnings_fill = Beginnings.unfinished_long

pub ended_stays : EndedStays
ended_stays = Beginnings.ended_stays

pub beginnings_decide : BeginningsDecide
beginnings_decide = Answers.beginnings_decide

pub reading_errors_lem : ReadingErrors
reading_errors_lem = Refusals.reading_errors_lem

pub language_errors_lem : LanguageErrors
language_errors_lem = Ends.language_errors_lem

pub needed_is_bounded : NeededIsBounded
needed_is_bounded = Lent.needed_is_bounded

pub always_answered : AlwaysAnswered
always_answered = Answers.always_answered

pub numbers_write_nothing : NumbersWriteNothing
numbers_write_nothing = Answers.numbers_write_nothing

pub pictures_fill_the_front : PicturesFillTheFront
pictures_fill_the_front = Pictures.pictures_fill_the_front

pub checking_takes_nothing : CheckingTakesNothing
checking_takes_nothing = Unrun.checking_takes_nothing

pub unrun_takes_nothing : UnrunTakesNothing
unrun_takes_nothing = Unrun.unrun_takes_nothing

pub unrun_is_refused : UnrunIsRefused
unrun_is_refused = Unrun.unrun_is_refused

pub others_take_a_step : OthersTakeAStep
others_take_a_step = Unrun.others_take_a_step

pub larger_grant : LargerGrant
larger_grant = Shortages.larger_grant

pub shortage_exact : ShortageExact
shortage_exact = Shortages.shortage_exact

pub calls_under_way : CallsUnderWay
calls_under_way = UnderWay.calls_under_way

pub returns_give_back : ReturnsGiveBack
returns_give_back = UnderWay.returns_give_back

pub none_under_way : NoneUnderWay
none_under_way = UnderWay.none_under_way

pub length_is_told : LengthIsTold
length_is_told = Told.length_is_told

pub drawn_is_told : DrawnIsTold
drawn_is_told = Told.drawn_is_told

pub told_is_drawn : ToldIsDrawn
told_is_drawn = Told.told_is_drawn

pub numbers_stay : NumbersStay
numbers_stay = Told.numbers_stay

pub end_alike : EndAlike
end_alike = Alike.end_alike

pub fitting_is_run : FittingIsRun
fitting_is_run = Alike.fitting_is_run

pub answers_are_beginnings : AnswersAreBeginnings
answers_are_beginnings = Alike.answers_are_beginnings

pub pictures_are_beginnings : PicturesAreBeginnings
pictures_are_beginnings = Alike.pictures_are_beginnings

pub sizes_not_negative : SizesNotNegative
sizes_not_negative = Sizes.sizes_not_negative

pub others_stay : OthersStay
others_stay = Sizes.others_stay

pub components_are_older : ComponentsAreOlder
components_are_older = Components.components_are_older

pub depths_suffice : DepthsSuffice
depths_suffice = Depths.depths_suffice
