-- Laws of what a channel holds: every token is in 32 bits, a register holds one token, a queue no more than its capacity, and nothing is
-- held for the outside, at the start and through an instant's writes and reads. Assumes nothing.
use Prim.Native.Nat.{ℕ, zero, suc, ◌+◌, ◌≤◌, ◌<◌}
use native.Mathlib.Omega.{arith}
use mathlib.Core.Bool.{Bool, true, false, cond, not, ◌&&◌}
use mathlib.Core.List.{List, [], ◌∷◌, ◌++◌}
use mathlib.Core.Path.{◌≡◌, refl, ◌∙◌, ap}
use lib.Dec.{eqb, ltb}
use lib.IntN.{ℤ, pos}
use lib.ListN.{get_or, length, drop, length-append, length-drop}
use lib.Seq.{get_or-drop}
use mir.Syntax.{w32}
use mir.Val.{SFits}
use borrow.Author.Tests.{ltb-false}
use Rattle.rules.specs.declared.Channel.{Channel}
use Rattle.rules.specs.Lists.{last_of}
use Rattle.rules.specs.Network.{is_register, is_out}
use Rattle.rules.specs.Instant.{time_in, channel_in, arriving, keeping, oldest}
use Rattle.rules.proofs.Checks.{ChannelFields}
use Rattle.rules.proofs.KindLaws.{round_fits, either_has}
use Rattle.rules.proofs.LongerLists.{length_last, at_any}

-- every token of a list is in 32 bits
pub record AllFit (l : List ℤ) : Type 0 where
  pub at : (i : ℕ) → SFits w32 (get_or l i (pos 0))

pub none_fit : AllFit []
none_fit = record { at = λ i. record { sfits = omega arith } }

pub entries_fit : (l : List ℤ) → ((i : ℕ) → i < length l → SFits w32 (get_or l i (pos 0))) → AllFit l
entries_fit l each = record { at = at_any (λ i. SFits w32) l (pos 0) (length l) refl each none_fit.at }

rest_fit : {x : ℤ} {xs : List ℤ} → AllFit (x ∷ xs) → AllFit xs
rest_fit f = record { at = λ i. f.at (suc i) }

pub cons_fit : {x : ℤ} {xs : List ℤ} → SFits w32 x → AllFit xs → AllFit (x ∷ xs)
cons_fit first rest = record { at = elim [ zero ↦ first | suc i ↦ rest.at i ] }

pub append_fit : (a b : List ℤ) → AllFit a → AllFit b → AllFit (a ++ b)
append_fit [] b fa fb = fb
append_fit (x ∷ xs) b fa fb = cons_fit (fa.at 0) (append_fit xs b (rest_fit fa) fb)

last_fit : (l : List ℤ) → AllFit l → AllFit (last_of l)
unfolding last_of
last_fit [] f = f
last_fit (x ∷ []) f = f
last_fit (x ∷ y ∷ ys) f = last_fit (y ∷ ys) (rest_fit f)

drop_fit : (n : ℕ) (l : List ℤ) → AllFit l → AllFit (drop n l)
drop_fit n l f = record { at = λ i. rw get_or-drop (f.at (n + i)) }

pub oldest_fits : (l : List ℤ) → AllFit l → SFits w32 (oldest l)
oldest_fits [] f = f.at 0
oldest_fits (x ∷ xs) f = f.at 0

pub arriving_fit : (arrivals : List ℕ) (t c : ℕ) → AllFit (arriving arrivals t c)
unfolding arriving
arriving_fit [] t c = none_fit
arriving_fit (w ∷ ws) t c =
    let rest = arriving_fit ws t c in
    either_has AllFit (eqb (time_in w) t && eqb (channel_in w) c) (cons_fit (round_fits w) rest) rest

keeping_fit : (ch : Channel) (old new : List ℤ) → AllFit old → AllFit new → AllFit (keeping ch old new)
unfolding keeping
keeping_fit ch old new fo fn =
    let both = append_fit old new fo fn in
    either_has AllFit (is_out ch) none_fit (either_has AllFit (is_register ch) (last_fit (old ++ new) both) both)

-- what a channel may hold before an instant
pub record Holds (ch : Channel) (l : List ℤ) : Type 0 where
  pub register : is_register ch ≡ true → length l ≡ 1
  pub queue : is_register ch ≡ false → length l ≤ ch.capacity
  pub out : is_out ch ≡ true → l ≡ []
  pub fit : AllFit l

empty : (l : List ℤ) → length l ≡ 0 → l ≡ []
empty [] h = refl
empty (x ∷ xs) h = absurd (omega arith)

-- the initial tokens
pub initial_holds : {nodes : ℕ} (ch : Channel) (l : List ℤ) → ChannelFields nodes ch → length l ≡ ch.initial → AllFit l → Holds ch l
initial_holds ch l fields count fit =
    record {
      register = λ e. count ∙ fields.register e;
      queue = λ e. omega (arith, fields.within);
      out = λ e. empty l (count ∙ fields.out e);
      fit = fit;
    }

not_overfull_law : (ch : Channel) (l : List ℤ) → (not (is_register ch) && ltb ch.capacity (length l)) ≡ false → is_register ch ≡ false
    → length l ≤ ch.capacity
not_overfull_law ch l under e = ltb-false ch.capacity (length l) (rw e at under)

-- the old tokens and the new ones, where they are not too many
pub writes_hold : {nodes : ℕ} (ch : Channel) (old new : List ℤ) → ChannelFields nodes ch → Holds ch old → AllFit new
    → (not (is_register ch) && ltb ch.capacity (length (keeping ch old new))) ≡ false → Holds ch (keeping ch old new)
unfolding keeping
writes_hold ch old new fields before fit under =
    record {
      register = λ e.
          let one : length old ≡ 1 = before.register e in
          rw (fields.inner e, e) (length_last (old ++ new) (rw length-append (omega arith)));
      queue = not_overfull_law ch (keeping ch old new) under;
      out = λ e. rw e;
      fit = keeping_fit ch old new before.fit fit;
    }

-- the tokens after the reads, which a register keeps
pub reads_hold : (ch : Channel) (ahead : Bool) (l : List ℤ) → Holds ch l → Holds ch (cond (not (is_register ch) && ahead) (drop 1 l) l)
reads_hold ch ahead l before =
    let test = not (is_register ch) && ahead in
    record {
      register = λ e. rw e (before.register e);
      queue = λ e. either_has (λ k. length k ≤ ch.capacity) test (omega (arith, before.queue e, length-drop 1 l)) (before.queue e);
      out = λ e. either_has (λ k. k ≡ []) test (ap (drop 1) (before.out e)) (before.out e);
      fit = either_has AllFit test (drop_fit 1 l before.fit) before.fit;
    }
