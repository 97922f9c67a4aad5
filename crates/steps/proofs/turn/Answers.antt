-- By the three outcomes: node n is released, as `turn_released` says, and then it is there; its result was due and is written; or neither, and
-- nothing changes.
use Rattle.std.proofs.Common.{◌≡◌, ℕ, List, map, get_or, ℤ, pos, w32, SFits, sym, ap, ◌∙◌, rules}
use lib.ListN.{get_or-map}
use Rattle.rules.specs.Kinds.{signed, pattern}
use Rattle.rules.proofs.KindLaws.{signed_pattern}
use Rattle.arrays.proofs.TurnsIn.{used, turn_written, turn_idle}
use Rattle.kinds.specs.Nodes.{seen}
use Rattle.steps.proofs.turn.Goals as goal

-- a node's value, as it is read and as it is seen
value_seen : (values : List ℤ) (n : ℕ) → SFits w32 (get_or values n (pos 0)) → pattern (signed (pattern (get_or values n (pos 0)))) ≡ get_or (map pattern values) n 0
value_seen values n fits = ap pattern (signed_pattern (get_or values n (pos 0)) fits) ∙ sym (get_or-map pattern values n (pos 0))

pub turn_released-requires : goal.turn_released-requires
turn_released-requires c =
    let there = used _ _ _ c.requires.1 c.requires.3 _ c.requires.2 c.if-before-t.true in
    let value = value_seen c.args.state.now.value c.args.n (search rules) in (
      c.requires.1,
      record { few = c.requires.3; readable = c.requires.0.readable c.args.n there; early = rw c.if-before-t.true c.requires.2 },
      rw value,
    )

pub returns-then-before-t-2 : goal.returns-then-before-t-2
returns-then-before-t-2 c =
    let value = value_seen c.args.state.now.value c.args.n (search rules) in
    turn_written _ _ _ c.requires.1 c.requires.3 c.if-before-t.false {a = seen c.written-after.result} c.if-before-t-2.true (rw (c.written-after.ensures, value)) c.soon.ensures

pub returns : goal.returns
returns c = turn_idle _ _ _ c.requires.1 c.requires.3 c.if-before-t.false c.if-before-t-2.false c.soon-2.ensures
