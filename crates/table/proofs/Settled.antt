-- The contracts of the two public calls settle what the calls come to, for any bytes, those of refused tables too: no two answers say the same,
-- and every element of the network is given. `Learnt` is what a caller learns from the contract in the source. Assumes nothing.
use mathlib.Core.List.{[]}
use mathlib.Core.Path.{◌≡◌, refl, sym, ◌∙◌, ap, Σ_path}
use Rattle.std.specs.Prelude.{Result, Ok, Err}
use Rattle.rules.specs.declared.Refusal.{Refusal}
use Rattle.rules.specs.Network as rules
use Rattle.rules.specs.Table.{Reading, refusal, read}
use Rattle.rules.proofs.Settle.{Settled, same}
use Rattle.rules.proofs.SaysOnce.{numbered, refusal_found, checked_says_once}
use Rattle.table.specs.declared.Network.{Network}
use Rattle.table.specs.Laid.{laid, TableOf}
use Rattle.table.specs.contracts as contracts
use Rattle.table.proofs as calls

none : Result Network Refusal
none = Err Refusal.Version

-- what is found by a reading: the network laid out, or the refusal with its number and place
table_by : Reading rules.Network → Result Network Refusal
table_by (read net) = Ok (laid net)
table_by (refusal number place) = numbered none Err place [] number

table_found : (reading : Reading rules.Network) (r : Result Network Refusal) → TableOf reading r → r ≡ table_by reading
unfolding table_by
table_found reading (Ok network) got = rw got.reads (ap Ok got.from)
table_found reading (Err why) got = rw got (sym (refusal_found none Err [] why))

pub check : Settled contracts.check.ended calls.check.Reads.Learnt
check κs args o p e f = Σ_path (same checked_says_once e f) refl

pub unpack : Settled contracts.unpack.ended calls.unpack.Reads.Learnt
unpack κs args o p e f = Σ_path (table_found _ o.0 e ∙ sym (table_found _ p.0 f)) refl
