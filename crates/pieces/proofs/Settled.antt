-- The contracts of the public calls settle what the calls come to, for any bytes and any numbers: no two readings of a piece say the same. `Learnt`
-- is what a caller learns from the contract in the source. Assumes nothing.
use mathlib.Core.List.{[]}
use mathlib.Core.Path.{◌≡◌, refl, ap, Σ_path}
use Rattle.std.specs.Prelude.{Result, Ok, Err}
use Rattle.rules.specs.declared.Refusal.{Refusal}
use Rattle.rules.specs.Table.{Reading, refusal, read}
use Rattle.rules.proofs.Settle.{Settled, Once, once_by, same}
use Rattle.rules.proofs.SaysOnce.{numbered, refusal_found}
use Rattle.pieces.specs.Says.{says, says_by, header_of}
use Rattle.pieces.specs.contracts as contracts
use Rattle.pieces.proofs as calls

module _ {A B : Type 0} (seen : A → B) (back : B → A) where
  -- what is found by a reading: what was read, or the refusal with its number and place
  abbrev found_by : Reading B → Result A Refusal
  found_by (read x) = Ok (back x)
  found_by (refusal number place) = numbered (Err Refusal.Version) Err place [] number

  -- so no two readings of a piece say the same
  says_by_once : ((x : A) → back (seen x) ≡ x) → Once (says_by seen)
  says_by_once again = once_by found_by found
    where
      found : (r : Result A Refusal) → found_by (says_by seen r) ≡ r
      found (Ok x) = ap Ok (again x)
      found (Err why) = refusal_found (Err Refusal.Version) Err [] why

header_says_once : Once (says_by header_of)
header_says_once = says_by_once header_of (λ h. record { nodes = h.nodes; channels = h.channels }) (λ counts. refl)

says_once : {A : Type 0} → Once (says {A = A})
says_once = says_by_once (λ x. x) (λ x. x) (λ x. refl)

pub read_header : Settled contracts.read_header.ended calls.read_header.Reads.Learnt
read_header κs args o p e f = Σ_path (same header_says_once e f) refl

pub node_piece : Settled contracts.node_piece.ended calls.node_piece.Reads.Learnt
node_piece κs args o p e f = Σ_path (same says_once e f) refl

pub channel_piece : Settled contracts.channel_piece.ended calls.channel_piece.Reads.Learnt
channel_piece κs args o p e f = Σ_path (same says_once e f) refl
