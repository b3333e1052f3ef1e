use native.Mathlib.Omega.{arith}
use Rattle.tables.proofs.IndexLaws.{bucket_is, spread_fits}
use Rattle.tables.proofs.entries.bucket.Goals as goal

pub overflow_mul-result-2 : goal.overflow_mul-result-2
overflow_mul-result-2 c = omega (arith, spread_fits c.hash_key-h.result _ c.requires)

pub returns : goal.returns
returns c = search bucket_is
