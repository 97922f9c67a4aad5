-- An accepted run's arrivals: each is on a channel that the outside writes, so that nothing arrives on one that a node writes, nor on one
-- that the outside reads. Assumes nothing.
use Prim.Native.Nat.{ℕ, suc, ◌<◌}
use native.Mathlib.Omega.{arith}
use mathlib.Core.Bool.{true, false, ◌&&◌, and-false, true-or, or-true}
use mathlib.Core.List.{List, [], ◌∷◌}
use mathlib.Core.Path.{◌≡◌, refl}
use lib.Dec.{eqb}
use lib.ListN.{length, get_or}
use borrow.Author.Tests.{eqb-true}
use Rattle.rules.specs.Lists.{lowest}
use Rattle.rules.specs.Network.{Network, Obeys, channel_of, outside, is_out}
use Rattle.rules.specs.Instant.{time_in, channel_in, arriving}
use Rattle.rules.specs.Refusals.{arrival_faulty, faulty_arrival}
use Rattle.rules.proofs.Checks.{fields_of}
use Rattle.rules.proofs.ListLaws.{by_test, true_or_false, lowest_is}

-- no arrival is faulty
abbrev pub Faultless : Network → List ℕ → Type 0
Faultless net arrivals = (i : ℕ) → i < length arrivals → arrival_faulty net arrivals i ≡ false

pub faultless_arrivals : (net : Network) (arrivals : List ℕ) → eqb (faulty_arrival net arrivals) (length arrivals) ≡ true → Faultless net arrivals
unfolding faulty_arrival
faultless_arrivals net arrivals g i h =
    let all = eqb-true (lowest (length arrivals) (arrival_faulty net arrivals)) (length arrivals) g in
    (lowest_is (length arrivals) (arrival_faulty net arrivals)).without i (omega arith)

-- where no arrival is stamped t and on channel c, none arrives there then
pub nothing_arrives : (ws : List ℕ) (t c : ℕ) → ((i : ℕ) → i < length ws → (eqb (time_in (get_or ws i 0)) t && eqb (channel_in (get_or ws i 0)) c) ≡ false)
    → arriving ws t c ≡ []
unfolding arriving
nothing_arrives [] t c without = refl
nothing_arrives (w ∷ ws) t c without =
    rw (without 0 (omega arith)) (nothing_arrives ws t c (λ i h. without (suc i) (omega arith)))

-- so where none is on channel c
pub nothing_arrives_on : (ws : List ℕ) (t c : ℕ) → ((i : ℕ) → i < length ws → eqb (channel_in (get_or ws i 0)) c ≡ false) → arriving ws t c ≡ []
nothing_arrives_on ws t c without = nothing_arrives ws t c (λ i h. simp (without i h, and-false))

-- an arrival that is not faulty is on a channel that the outside writes
faultless_outside : (net : Network) (arrivals : List ℕ) (i : ℕ) → arrival_faulty net arrivals i ≡ false
    → eqb (channel_of net (channel_in (get_or arrivals i 0))).writer outside ≡ true
unfolding arrival_faulty
faultless_outside net arrivals i h =
    by_test (eqb (channel_of net (channel_in (get_or arrivals i 0))).writer outside) (λ e. e) (λ e. true_or_false refl (simp (e, or-true, true-or) at h))

-- nothing arrives on a channel that a node writes
pub node_alone : (net : Network) (arrivals : List ℕ) → Faultless net arrivals
    → (t c : ℕ) → eqb (channel_of net c).writer outside ≡ false → arriving arrivals t c ≡ []
node_alone net arrivals faultless t c inside =
    nothing_arrives_on arrivals t c
    (λ i h.
    let on = channel_in (get_or arrivals i 0) in
    by_test (eqb on c)
    (λ e. true_or_false (faultless_outside net arrivals i (faultless i h)) (rw (eqb-true on c e) inside))
    (λ e. e))

-- nor on one that the outside reads
pub nothing_arrives_out : (net : Network) (arrivals : List ℕ) → Obeys net → Faultless net arrivals
    → (t c : ℕ) → c < length net.channels → is_out (channel_of net c) ≡ true → arriving arrivals t c ≡ []
nothing_arrives_out net arrivals obeys faultless t c below out =
    node_alone net arrivals faultless t c ((fields_of net obeys c below).written out)
