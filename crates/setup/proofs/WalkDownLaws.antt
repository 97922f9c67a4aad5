-- A walk that is made from the last channel down: from k on it leads from each channel with the property to the next one, and it climbs. At 0
-- it is whole. The walks of all nodes are made together: a channel joins its writer's walk and leaves the others. Assumes nothing.
use Prim.Native.Nat.{ℕ, suc, ◌+◌, ◌≤◌, ◌<◌}
use native.Mathlib.Omega.{arith}
use mathlib.Core.Bool.{Bool, true, false, and-false}
use mathlib.Core.List.{List, ◌∷◌, [], ◌++◌, append-nil, append_assoc}
use mathlib.Core.Path.{◌≡◌, refl, sym, ◌∙◌, ap}
use lib.Dec.{eqb}
use lib.ListN.{length, get_or, set, replicate, length-append, length-set, length-replicate, get_or-replicate}
use borrow.Author.Tests.{lt-ltb, le-ltb, eqb-true, eqb-false, eq-eqb, ne_eqb}
use Rattle.rules.proofs.ListLaws.{by_test, and_both, true_or_false}
use Rattle.arrays.specs.Writes.{next_from, Climbs}
use Rattle.setup.specs.Setup.{inner_of, outer_of, WalkOver, WalksOf}
use Rattle.std.specs.List.{push}
use lib.Seq.{get_or-append_seam}
use Rattle.rules.specs.declared.Channel.{Channel}
use Rattle.rules.specs.Network.{channel_among}
use Rattle.setup.proofs.SetupLaws.{at_set}
use Rattle.setup.proofs.NextLaws.{next_none, next_here, next_behind}

-- the walk from k on, below n
pub record WalkDown (n k : ℕ) (follow : List ℕ) (first : ℕ) (mine : ℕ → Bool) : Type 0 where
  pub size : length follow ≡ 64
  pub climbs : Climbs n follow first
  pub above : k ≤ first
  pub starts : first ≡ next_from n mine k
  pub goes_on : (c : ℕ) → k ≤ c → c < n → mine c ≡ true → get_or follow c 0 ≡ next_from n mine (suc c)

-- no channel is on a walk yet
pub down_none : (n : ℕ) (follow : List ℕ) (first : ℕ) (mine : ℕ → Bool) → n ≤ 64 → follow ≡ replicate 64 64 → first ≡ 64 → WalkDown n n follow first mine
down_none n follow first mine h all end =
    let each : (c : ℕ) → c < n → get_or follow c 0 ≡ 64 = λ c under. rw all (get_or-replicate 64 c 64 0 (omega arith)) in
    record {
      size = rw all (length-replicate {A = ℕ} 64 64);
      climbs = record {
        few = h;
        from = λ g. absurd (omega arith);
        stays = λ c under g. absurd (omega (arith, each c under));
        up = λ c under. omega (arith, each c under);
      };
      above = omega arith;
      starts = end ∙ sym (next_none n mine n (omega arith));
      goes_on = λ c from under. absurd (omega arith);
    }

-- channel k leads to a later one or to none; whatever is the first
climbs_set : {n first : ℕ} {follow : List ℕ} (k v start : ℕ) → Climbs n follow first → k < length follow → (v < 64 → v < n) → k < v → (start < 64 → start < n) → Climbs n (set follow k v) start
climbs_set {n} {first} {follow} k v start climbs there within over begin =
    record {
      few = climbs.few;
      from = begin;
      stays = λ c under. at_set (λ x. x < 64 → x < n) 0 follow k v c there (λ e. within) (λ other. climbs.stays c under);
      up = λ c under. at_set (λ x. c < x) 0 follow k v c there (λ e. omega arith) (λ other. climbs.up c under);
    }

module _ {n k first : ℕ} {follow : List ℕ} {mine : ℕ → Bool} (down : WalkDown n (suc k) follow first mine) where
  -- channel k has the property: it leads to what was the first, and is the first
  pub down_takes : k < n → mine k ≡ true → WalkDown n k (set follow k first) k mine
  down_takes h holds =
      let there : k < length follow = omega arith in
      record {
        size = length-set follow k first ∙ down.size;
        climbs = climbs_set k first k down.climbs there down.climbs.from down.above (λ g. h);
        above = omega arith;
        starts = sym (next_here n mine k h holds);
        goes_on = λ c from under hold.
            at_set (λ x. x ≡ next_from n mine (suc c)) 0 follow k first c there
            (λ e. down.starts ∙ ap (λ (i : ℕ). next_from n mine (suc i)) (sym e))
            (λ other. down.goes_on c (omega arith) under hold);
      }

  -- it has not: the walk stays
  pub down_passes : mine k ≡ false → WalkDown n k follow first mine
  down_passes fails =
      record {
        size = down.size;
        climbs = down.climbs;
        above = omega arith;
        starts = down.starts ∙ sym (next_behind n mine k fails);
        goes_on = λ c from under hold.
            by_test (eqb c k)
            (λ e. true_or_false (sym (ap mine (eqb-true c k e)) ∙ hold) fails)
            (λ e. down.goes_on c (omega (arith, eqb-false c k e)) under hold);
      }

  -- it has not, and another walk takes it
  pub down_beside : (v : ℕ) → k < n → mine k ≡ false → (v < 64 → v < n) → k < v → WalkDown n k (set follow k v) first mine
  down_beside v h fails within over =
      let there : k < length follow = omega arith in
      record {
        size = length-set follow k v ∙ down.size;
        climbs = climbs_set k v first down.climbs there within over down.climbs.from;
        above = omega arith;
        starts = (down_passes fails).starts;
        goes_on = λ c from under hold.
            at_set (λ x. x ≡ next_from n mine (suc c)) 0 follow k v c there
            (λ e. true_or_false (sym (ap mine e) ∙ hold) fails)
            (λ other. (down_passes fails).goes_on c from under hold);
      }

pub down_ends : {n first : ℕ} {follow : List ℕ} {mine : ℕ → Bool} → WalkDown n 0 follow first mine → WalkOver n follow first mine
down_ends down =
    record {
      size = down.size;
      walk = record { starts = down.starts; goes_on = λ c. down.goes_on c (omega arith) };
      climbs = down.climbs;
    }

-- the walks of all nodes and the walk to the outside, from k on
pub record WalksDown (channels : List Channel) (k : ℕ) (first follow : List ℕ) (first_out : ℕ) (follow_out : List ℕ) : Type 0 where
  pub firsts : length first ≡ 32
  pub walks : (m : ℕ) → m < 32 → WalkDown (length channels) k follow (get_or first m 0) (inner_of channels m)
  pub outs : WalkDown (length channels) k follow_out first_out (outer_of channels)

pub walks_none : (channels : List Channel) → length channels ≤ 64 → WalksDown channels (length channels) (replicate 32 64) (replicate 64 64) 64 (replicate 64 64)
walks_none channels h =
    record {
      firsts = length-replicate {A = ℕ} 32 64;
      walks = λ m under.
          down_none (length channels) (replicate 64 64) (get_or (replicate 32 64) m 0) (inner_of channels m) h refl (get_or-replicate 32 m 64 0 under);
      outs = down_none (length channels) (replicate 64 64) 64 (outer_of channels) h refl refl;
    }

module _ {channels : List Channel} {k : ℕ} {first follow : List ℕ} {first_out : ℕ} {follow_out : List ℕ} (down : WalksDown channels (suc k) first follow first_out follow_out) (h : k < length channels) where
  -- no node reads channel k
  pub walks_out : 32 ≤ (channel_among channels k).reader → WalksDown channels k first follow k (set follow_out k first_out)
  walks_out outer =
      record {
        firsts = down.firsts;
        walks = λ m under.
            down_passes (down.walks m under)
            (rw (le-ltb (channel_among channels k).reader 32 outer) (and-false (eqb (channel_among channels k).writer m)));
        outs = down_takes down.outs h (rw (le-ltb (channel_among channels k).reader 32 outer));
      }

  module _ (inner : (channel_among channels k).reader < 32) where
    passes_out : WalkDown (length channels) k follow_out first_out (outer_of channels)
    passes_out = down_passes down.outs (rw (lt-ltb (channel_among channels k).reader 32 inner))

    -- it joins the walk of its writer w
    pub walks_take : {w : ℕ} → w ≡ (channel_among channels k).writer → w < 32 → WalksDown channels k (set first w k) (set follow k (get_or first w 0)) first_out follow_out
    walks_take {w} wrote from =
        let own = down.walks w from in
        record {
          firsts = length-set first w k ∙ down.firsts;
          walks = λ m under.
              at_set (λ x. WalkDown (length channels) k (set follow k (get_or first w 0)) x (inner_of channels m)) 0 first w k m (omega (arith, down.firsts))
              (λ e.
              rw e
              (down_takes own h (and_both (eq-eqb (channel_among channels k).writer w (sym wrote)) (lt-ltb (channel_among channels k).reader 32 inner))))
              (λ other.
              down_beside (down.walks m under) (get_or first w 0) h (rw (ne_eqb (channel_among channels k).writer m (λ e. other (sym e ∙ sym wrote)))) own.climbs.from own.above);
          outs = passes_out;
        }

    -- none writes it
    pub walks_pass : 32 ≤ (channel_among channels k).writer → WalksDown channels k first follow first_out follow_out
    walks_pass outer =
        record {
          firsts = down.firsts;
          walks = λ m under. down_passes (down.walks m under) (rw (ne_eqb (channel_among channels k).writer m (λ e. omega arith)));
          outs = passes_out;
        }

pub walks_end : {channels : List Channel} {first follow : List ℕ} {first_out : ℕ} {follow_out : List ℕ} → WalksDown channels 0 first follow first_out follow_out → WalksOf channels first follow first_out follow_out
walks_end down = record { firsts = down.firsts; walks = λ m under. down_ends (down.walks m under); outs = down_ends down.outs }

-- ---- The loop over the channels, the last one first

-- these channels are left, the first ones, and the walks are made behind them
pub record WalksLeft (channels : List Channel) (count : ℕ) (left : List Channel) (first follow : List ℕ) (first_out : ℕ) (follow_out : List ℕ) : Type 0 where
  pub from : count ≡ 0
  pub behind : List Channel
  pub all : channels ≡ left ++ behind
  pub down : WalksDown channels (length left) first follow first_out follow_out

pub left_all : {channels left : List Channel} {count : ℕ} → count ≡ 0 → left ≡ channels → length channels ≤ 64 → WalksLeft channels count left (replicate 32 64) (replicate 64 64) 64 (replicate 64 64)
left_all {channels} zero same h =
    record { from = zero; behind = []; all = rw same (sym (append-nil channels)); down = rw same (walks_none channels h) }

-- a turn takes the last one of them, channel c
module _ {channels left : List Channel} {count then c first_out : ℕ} {first follow follow_out : List ℕ} (rest : List Channel) (last : Channel) (before : WalksLeft channels count left first follow first_out follow_out) (takes : (then ≡ count) × ((left ≡ push rest last) × (c ≡ count + length rest) × (c + 1 < 18446744073709551616))) where
  rest_all : channels ≡ rest ++ (last ∷ before.behind)
  rest_all = before.all ∙ rw (takes.1.0, append_assoc) refl

  rest_there : channel_among channels (length rest) ≡ last
  rest_there = rw rest_all (get_or-append_seam rest last before.behind _)

  rest_under : length rest < length channels
  rest_under = rw rest_all (simp length-append (omega arith))

  rest_down : WalksDown channels (suc (length rest)) first follow first_out follow_out
  rest_down =
      let more : length left ≡ suc (length rest) = rw takes.1.0 (length-append rest (last ∷ []) ∙ omega arith) in
      rw more at before.down

  rest_here : c ≡ length rest
  rest_here = omega (arith, before.from)

  rest_left : {first' follow' follow_out' : List ℕ} {first_out' : ℕ} → WalksDown channels (length rest) first' follow' first_out' follow_out' → WalksLeft channels then rest first' follow' first_out' follow_out'
  rest_left down = record { from = takes.0 ∙ before.from; behind = last ∷ before.behind; all = rest_all; down = down }

  pub left_out : {head next : ℕ} → 32 ≤ last.reader → head ≡ c → next ≡ first_out → WalksLeft channels then rest first follow head (set follow_out c next)
  left_out outer is was = rest_left (rw (is, was, rest_here) (walks_out rest_down rest_under (rw rest_there outer)))

  module _ (inner : last.reader < 32) where
    pub left_take : {head next : ℕ} → last.writer < 32 → head ≡ c → next ≡ get_or first last.writer 0 → WalksLeft channels then rest (set first last.writer head) (set follow c next) first_out follow_out
    left_take from is was =
        rest_left
        (rw (is, was, rest_here)
        (walks_take rest_down rest_under (rw rest_there inner) (ap (λ (ch : Channel). ch.writer) (sym rest_there)) from))

    pub left_pass : 32 ≤ last.writer → WalksLeft channels then rest first follow first_out follow_out
    left_pass outer = rest_left (walks_pass rest_down rest_under (rw rest_there inner) (rw rest_there outer))

pub left_none : {channels left : List Channel} {count : ℕ} {first follow : List ℕ} {first_out : ℕ} {follow_out : List ℕ} → WalksLeft channels count left first follow first_out follow_out → length left ≡ 0 → WalksOf channels first follow first_out follow_out
left_none walks none = walks_end (rw none at walks.down)
