-- A node that is refused, and a token that is missing, refuse all nodes and all tokens. Assumes nothing.
use Prim.Native.Nat.{ℕ, suc, ◌+◌, ◌-◌, ◌*◌, ◌<◌}
use native.Mathlib.Omega.{arith}
use mathlib.Core.Bool.{false}
use mathlib.Core.List.{List}
use mathlib.Core.Path.{◌≡◌, sym}
use lib.Dec.{leb}
use lib.IntN.{ℤ}
use lib.ListN.{length}
use Rattle.rules.specs.declared.Node.{Node}
use Rattle.rules.specs.declared.Refusal.{Refusal}
use Rattle.rules.specs.Table.{refusal, read, node_piece, nodes_up_to, token_piece, tokens_up_to}
use Rattle.rules.proofs.ReadingLaws.{nodes_refused, tokens_refused}
use Rattle.pieces.specs.Says.{refused_by}

module _ (s : List ℕ) where
  pub node_refused : (n count : ℕ) (nodes : List Node) (why : Refusal) → n < count → nodes_up_to s n ≡ read nodes → refused_by why ≡ node_piece s n → refused_by why ≡ nodes_up_to s count
  unfolding nodes_up_to
  node_refused n count nodes why more done piece =
      let rest : count ≡ suc n + (count - suc n) = omega arith in
      rw rest (sym (nodes_refused s (suc n) (count - suc n) _ _ (rw (done, ← piece))))

  pub token_missing : (at i count : ℕ) (tokens : List ℤ) → i < count → tokens_up_to s at i ≡ read tokens → leb (at + 32 * i + 32) (8 * length s) ≡ false → refusal 1 (at + 32 * i) ≡ tokens_up_to s at count
  unfolding tokens_up_to token_piece
  token_missing at i count tokens more done missing =
      let rest : count ≡ suc i + (count - suc i) = omega arith in
      rw rest (sym (tokens_refused s at (suc i) (count - suc i) 1 (at + 32 * i) (rw (done, missing))))
