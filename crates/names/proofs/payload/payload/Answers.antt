-- `names::payload::payload` meets its contract, by the kinds.
use native.Mathlib.Omega.{arith}
use Rattle.names.proofs.Payloads.{procedure_few, payload_name, payload_digits, payload_string, payload_other}
use Rattle.names.proofs.payload.payload.Goals as goal

pub overflow_mul-result-in-1 : goal.overflow_mul-result-in-1
overflow_mul-result-in-1 c = let h = procedure_few _ _ c.procedure_number.ensures in omega arith

pub overflow_add-result-in-1 : goal.overflow_add-result-in-1
overflow_add-result-in-1 c = let h = procedure_few _ _ c.procedure_number.ensures in omega arith

pub returns-in-1 : goal.returns-in-1
returns-in-1 c = search payload_name

pub returns-in-2 : goal.returns-in-2
returns-in-2 c = search payload_digits

pub returns-in-3 : goal.returns-in-3
returns-in-3 c = search payload_string

pub returns-in_default : goal.returns-in_default
returns-in_default c = let n = c.in_default.in_default-own.rest in payload_other _ _ _ n.0.0.1 n.0.1 n.1
