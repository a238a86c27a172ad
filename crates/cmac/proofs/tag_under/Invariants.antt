-- After i turns value is the state of the chain that takes block after block and, after `before` of them, the last one with its subkey;
-- the cipher was called i times.
use Rattle.std.proofs.Common.{◌≡◌, ◌*◌, ◌≤◌, length}
use Rattle.words.specs.Words.{block_of}
use Rattle.cipher.specs.Cipher.{cipher_of}
use Rattle.cmac.proofs.Chain.{turns, taken}
use Rattle.cmac.proofs.tag_under.Given as goal

abbrev pub invariant-loop-i : goal.invariant-loop-i
invariant-loop-i l = record {
  inside : 16 * l.before ≤ length l.message;
  state : block_of l.value ≡ turns (cipher_of l.aes.schedule) (taken l.message (block_of l.last) l.before) l.i;
  calls : l.count ≡ l.i;
}
