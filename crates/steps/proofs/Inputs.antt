-- The inputs of a node, port by port: whether every one holds a token, and the tokens as they are taken. Assumes nothing.
use Rattle.std.proofs.Common.{◌≡◌, ℕ, ◌+◌, ◌<◌, true, false, cond, nat_lt, List, length, get_or, set, replicate, ℤ, pos, None, Some, refl, sym, ◌∙◌, zero, suc, arith}
use Rattle.std.proofs.lemmas.List.{get_or-set_same, get_or-set_other}
use borrow.Author.Tests.{ltb-true, ltb-false, lt-ltb, le-ltb}
use Rattle.rules.specs.Kinds.{pattern}
use Rattle.rules.proofs.ListLaws.{by_test, every_at, every_all}
use Rattle.layout.specs.declared.Plan.{Plan}
use Rattle.layout.specs.declared.State.{State}
use Rattle.layout.specs.Views.{channels_of, shape_of, wires_of, cells_of}
use Rattle.rings.proofs.StoreLaws.{by_channel}
use Rattle.arrays.specs.Taking.{Ported, all_hold, found}
use Rattle.arrays.specs.Instants.{RingsIn}
use Rattle.arrays.proofs.InputLaws.{TakenTo, taken_all}
use Rattle.arrays.proofs.TakenPorts.{lengths_hold, found_behind, took_lacking}
use Rattle.steps.specs.Steps.{holds_at, TookIn}

-- every port holds a token
abbrev AllHold : Plan → State → ℕ → ℕ → Type 0
AllHold p s n count = (k : ℕ) → k < count → holds_at p s n k ≡ true

module _ (p : Plan) (s : State) (n count : ℕ) where
  pub every_holds : AllHold p s n count → all_hold (shape_of p) (cells_of s) (wires_of p).input n count ≡ true
  every_holds holds = sym (lengths_hold (shape_of p) (cells_of s) (wires_of p).input n count) ∙ every_all count (holds_at p s n) holds

  -- where one holds none, nothing is taken and nothing is found
  pub lacking : RingsIn p s → (AllHold p s n count → ⊥) → TookIn p s n count s None
  lacking rings other =
      let lacks : all_hold (shape_of p) (cells_of s) (wires_of p).input n count ≡ false =
      by_test (all_hold (shape_of p) (cells_of s) (wires_of p).input n count)
      (λ e. absurd (other (every_at count (holds_at p s n) (lengths_hold (shape_of p) (cells_of s) (wires_of p).input n count ∙ e))))
      (λ e. e) in
      record {
        inputs = record { ready = sym lacks; took = took_lacking (wires_of p).input n count rings lacks; tokens = tt };
        nodes = refl;
      }

-- a list's entries are the first of some numbers, by their 32 bits, and 0 behind
abbrev pub Begins : (ℕ → ℕ) → ℕ → List ℤ → Type 0
Begins f p tokens = (k : ℕ) → pattern (get_or tokens k (pos 0)) ≡ cond (nat_lt k p) (f k) 0

all_zero : (n k : ℕ) → get_or (replicate n (pos 0)) k (pos 0) ≡ pos 0
all_zero zero k = refl
all_zero (suc n) zero = refl
all_zero (suc n) (suc k) = all_zero n k

pub none_begin : (f : ℕ → ℕ) (n : ℕ) → Begins f 0 (replicate n (pos 0))
none_begin f n k = rw (all_zero n k, le-ltb k 0 (omega arith))

pub one_begins : (f : ℕ → ℕ) (p : ℕ) (tokens : List ℤ) (v : ℤ) → p < length tokens → pattern v ≡ f p → Begins f p tokens → Begins f (p + 1) (set tokens p v)
one_begins f p tokens v within same so k =
    by_channel k p
    (λ e. rw (e, get_or-set_same tokens p v (pos 0) within, lt-ltb p (p + 1) (omega arith)) same)
    (λ e.
    rw (get_or-set_other tokens p k v (pos 0) e)
    (so k
    ∙ by_test (nat_lt k p) (λ t. rw (t, lt-ltb k (p + 1) (omega (arith, ltb-true k p t))))
    (λ t. rw (t, le-ltb k (p + 1) (omega (arith, ltb-false k p t))))))

-- once all are taken
pub took_all : (p : Plan) (s z : State) (n count : ℕ) (tokens : List ℤ) → Ported (channels_of p) (wires_of p).input n count
    → all_hold (shape_of p) (cells_of s) (wires_of p).input n count ≡ true → TakenTo p s n count count z
    → Begins (found (shape_of p) (cells_of s) (wires_of p).input n count) count tokens → TookIn p s n count z (Some tokens)
took_all p s z n count tokens ported holds taken begins =
    record {
      inputs = record {
        ready = sym holds;
        took = taken_all p s n count ported z holds taken;
        tokens = λ k.
            begins k
            ∙ by_test (nat_lt k count) (λ e. rw e) (λ e. rw e (found_behind (shape_of p) (cells_of s) (wires_of p).input n count k (ltb-false k count e)));
      };
      nodes = taken.nodes;
    }
