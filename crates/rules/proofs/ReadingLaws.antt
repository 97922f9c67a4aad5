-- What a reading gives, if it gives anything: what it went through was read, and every test on the way passed; and that a refusal on the
-- way stands. Assumes nothing.
use Prim.Native.Nat.{ℕ, zero, suc, ◌+◌, ◌*◌, ◌≤◌, ◌<◌}
use native.Mathlib.Nat.{not-suc-le-zero, add-zero, add-suc}
use native.Mathlib.Omega.{arith}
use mathlib.Core.Bool.{Bool, true, false}
use mathlib.Core.List.{List, [], ◌∷◌, ◌++◌}
use mathlib.Core.Path.{◌≡◌, refl, ap, ◌∙◌}
use lib.Dec.{leb}
use lib.ListN.{length, get_or}
use borrow.Author.Tests.{leb-true}
use Rattle.rules.specs.Table.{Reading, refusal, read, ◌then◌, unless, piece, nodes_up_to, tokens_up_to, channels_up_to}
use Rattle.rules.proofs.LongerLists.{length_more, entries_more}

pub read_same : {A : Type 0} {a b : A} → ◌≡◌ {A = Reading A} (read a) (read b) → a ≡ b
read_same e = cc

-- a refusal reads nothing
pub refused_or_read : {A P : Type 0} {number place : ℕ} {b : A} → ◌≡◌ {A = Reading A} (refusal number place) (read b) → P
refused_or_read e = let z : ◌≡◌ {A = ℕ} 0 1 = cc in absurd (omega arith)

-- by the two outcomes of a reading
pub by_reading : {A P : Type 0} (r : Reading A) → ((number place : ℕ) → r ≡ refusal number place → P) → ((a : A) → r ≡ read a → P) → P
by_reading (refusal number place) refuses reads = refuses number place refl
by_reading (read a) refuses reads = reads a refl

-- what a reading gives, if it gives anything, has the property P
pub record Gives {A : Type 0} (P : A → Type 0) (r : Reading A) : Type 0 where
  pub given : (a : A) → r ≡ read a → P a

pub read_gives : {A : Type 0} {P : A → Type 0} {a : A} → P a → Gives P (read a)
read_gives h = record { given = λ b e. rw (← read_same e) h }

pub then_gives : {A B : Type 0} {Q : A → Type 0} {P : B → Type 0} {r : Reading A} {go : A → Reading B} → Gives Q r → ((a : A) → Q a → Gives P (go a)) → Gives P (r then go)
then_gives {r = refusal number place} first rest = record { given = λ b e. refused_or_read e }
then_gives {r = read a} first rest = rest a (first.given a refl)

pub unless_gives : {A : Type 0} {P : A → Type 0} (test : Bool) (number place : ℕ) (a : A) → (test ≡ true → P a) → Gives P (unless test number place a)
unless_gives true number place a passed = read_gives (passed refl)
unless_gives false number place a passed = record { given = λ b e. refused_or_read e }

-- a test or a piece, and then the rest
pub unless_then_gives : {A B : Type 0} {P : B → Type 0} (test : Bool) (number place : ℕ) (a : A) (go : A → Reading B) → (test ≡ true → Gives P (go a)) → Gives P (unless test number place a then go)
unless_then_gives true number place a go passed = passed refl
unless_then_gives false number place a go passed = record { given = λ b e. refused_or_read e }

pub piece_then_gives : {A B : Type 0} {P : B → Type 0} (s : List ℕ) (at width : ℕ) (a : A) (go : A → Reading B) → (at + width ≤ 8 * length s → Gives P (go a)) → Gives P (piece s at width a then go)
piece_then_gives s at width a go there =
    let fits = leb (at + width) (8 * length s) in
    unless_then_gives fits 1 at a go (λ h. there (leb-true (at + width) (8 * length s) h))

-- a list of n entries, each with the property P
pub record Entries {A : Type 0} (P : A → Type 0) (d : A) (n : ℕ) (l : List A) : Type 0 where
  pub count : length l ≡ n
  pub each : (i : ℕ) → i < length l → P (get_or l i d)

-- where each reading reads one entry more, all entries have what the readings of one give
pub entries_read : {A : Type 0} {P : A → Type 0} {d : A} (f : ℕ → Reading (List A)) (one : ℕ → Reading A) → f 0 ≡ read []
    → ((n : ℕ) → f (suc n) ≡ (f n then λ l. one n then λ a. read (l ++ (a ∷ [])))) → ((n : ℕ) → Gives P (one n)) → (n : ℕ) → Gives (Entries P d n) (f n)
entries_read f one none next gives zero =
    rw none (read_gives (record { count = refl; each = λ i h. absurd (not-suc-le-zero h) }))
entries_read {P = P} {d = d} f one none next gives (suc n) =
    rw (next n)
    (then_gives (entries_read f one none next gives n)
    (λ l front.
    then_gives (gives n)
    (λ a new. read_gives (record { count = length_more l a ∙ ap suc front.count; each = entries_more P l a d front.each new }))))

-- where each reading goes on from the one before it, a refusal stands in all later ones
refused_on : {A : Type 0} (f : ℕ → Reading A) (go : ℕ → A → Reading A) → ((n : ℕ) → f (suc n) ≡ (f n then go n)) → (n k number place : ℕ) → f n ≡ refusal number place → f (n + k) ≡ refusal number place
refused_on f go next n zero number place e = rw (add-zero n) e
refused_on f go next n (suc k) number place e =
    rw (add-suc n k, next (n + k), refused_on f go next n k number place e)

-- a refusal of the first nodes, tokens or channels stands for any greater number of them
pub nodes_refused : (s : List ℕ) (n k number place : ℕ) → nodes_up_to s n ≡ refusal number place → nodes_up_to s (n + k) ≡ refusal number place
unfolding nodes_up_to
nodes_refused s = refused_on (nodes_up_to s) _ (λ n. refl)

pub tokens_refused : (s : List ℕ) (at n k number place : ℕ) → tokens_up_to s at n ≡ refusal number place → tokens_up_to s at (n + k) ≡ refusal number place
unfolding tokens_up_to
tokens_refused s at = refused_on (tokens_up_to s at) _ (λ n. refl)

pub channels_refused : (s : List ℕ) (nodes n k number place : ℕ) → channels_up_to s nodes n ≡ refusal number place → channels_up_to s nodes (n + k) ≡ refusal number place
unfolding channels_up_to
channels_refused s nodes = refused_on (channels_up_to s nodes) _ (λ n. refl)
