use Rattle.meaning.specs.Basics.{if◌then◌otherwise◌}
use Rattle.machine.specs.Library.{perform}
use Rattle.library.proofs.ProcedureLaws.{performs_10}
use Rattle.library.proofs.perform.Goals as goal

pub returns-in-0 : goal.returns-in-0
unfolding perform if◌then◌otherwise◌
returns-in-0 c = rw c.in-0.is c.draw.ensures

pub returns-in-1 : goal.returns-in-1
unfolding perform if◌then◌otherwise◌
returns-in-1 c = rw c.in-1.is c.draw-in-1.ensures

pub returns-in-2 : goal.returns-in-2
unfolding perform if◌then◌otherwise◌
returns-in-2 c = rw c.in-2.is c.draw-in-2.ensures

pub returns-in-3 : goal.returns-in-3
unfolding perform if◌then◌otherwise◌
returns-in-3 c = rw c.in-3.is c.draw_text.ensures

pub returns-in-4 : goal.returns-in-4
unfolding perform if◌then◌otherwise◌
returns-in-4 c = rw c.in-4.is c.connect.ensures

pub returns-in-5 : goal.returns-in-5
unfolding perform if◌then◌otherwise◌
returns-in-5 c = rw c.in-5.is c.label.ensures

pub returns-in-6 : goal.returns-in-6
unfolding perform if◌then◌otherwise◌
returns-in-6 c = rw c.in-6.is c.x_coordinate.ensures

pub returns-in-7 : goal.returns-in-7
unfolding perform if◌then◌otherwise◌
returns-in-7 c = rw c.in-7.is c.y_coordinate.ensures

pub returns-in-8 : goal.returns-in-8
unfolding perform if◌then◌otherwise◌
returns-in-8 c = rw c.in-8.is c.destroy.ensures

pub returns-in-9 : goal.returns-in-9
unfolding perform if◌then◌otherwise◌
returns-in-9 c = rw c.in-9.is c.clear.ensures

pub returns-in_default : goal.returns-in_default
returns-in_default c = search performs_10
