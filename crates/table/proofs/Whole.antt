-- What a table comes to, once its pieces are read. Assumes nothing.
use Prim.Native.Nat.{ℕ, ◌≤◌}
use native.Mathlib.Omega.{arith}
use mathlib.Core.List.{List, [], ◌++◌}
use mathlib.Core.Path.{◌≡◌, sym}
use lib.IntN.{ℤ}
use lib.ListN.{length, drop, replicate}
use Rattle.rules.specs.declared.Node.{Node}
use Rattle.rules.specs.declared.Channel.{Channel}
use Rattle.rules.specs.declared.Counts.{Counts}
use Rattle.rules.specs.Network.{Network, node_among, channel_among}
use Rattle.rules.specs.Table.{Reading, read, header_at}
use Rattle.rules.proofs.Checks.{counts_within}
use Rattle.rules.proofs.Pieces.{header_read}
use Rattle.pieces.specs.Says.{header_of}
use Rattle.table.specs.Laid.{laid, LaidFrom}
use Rattle.table.specs.Reads.{PiecesDone}
use Rattle.table.proofs.LaidLaws.{laid_out}

module _ (s : List ℕ) (counts : Counts) (header : read (header_of counts) ≡ header_at s) where
  within : (counts.nodes ≤ 32) × (counts.channels ≤ 64)
  within = counts_within _ _ ((header_read s).given _ (sym header))

  -- a header that was read has counts within the limits
  pub nodes_within : counts.nodes ≤ 32
  nodes_within = within.0

  pub channels_within : counts.channels ≤ 64
  channels_within = within.1

-- the pieces, each array zero behind them, are laid out
pub pieces_laid : (reading : Reading Network) (n c : ℕ) (nodes : List Node) (channels : List Channel) (placed : List ℤ) (node : Node) (channel : Channel) → node ≡ node_among [] 0 → channel ≡ channel_among [] 0 → length nodes ≡ n → length channels ≡ c → n ≤ 32 → c ≤ 64 → PiecesDone reading nodes channels placed → LaidFrom reading (record { nodes = n; channels = c; node = nodes ++ drop n (replicate 32 node); channel = channels ++ drop c (replicate 64 channel); tokens = placed })
unfolding laid
pieces_laid reading n c nodes channels placed node channel no_node no_channel count channels_count few_nodes few_channels done =
    record {
      net = record { nodes = nodes; channels = channels; tokens = done.tokens };
      reads = done.reads;
      from =
          rw (no_node, no_channel, ← count, ← channels_count)
          (λ i.
          record {
            nodes = length nodes;
            channels = length channels;
            node = sym (laid_out (node_among [] 0) nodes 32 (omega arith)) i;
            channel = sym (laid_out (channel_among [] 0) channels 64 (omega arith)) i;
            tokens = done.laid i;
          });
    }
