-- Before each turn x is the block encrypted as often as there were turns.
use Rattle.std.proofs.Common.{◌≡◌}
use Rattle.words.specs.Words.{block_of}
use Rattle.cipher.specs.Cipher.{cipher_of}
use Rattle.probe.specs.Told.{repeated}
use Rattle.probe_cipher.proofs.work.encrypt_chain.Given as goal

abbrev pub invariant-loop : goal.invariant-loop
invariant-loop l = block_of l.x ≡ repeated (cipher_of l.aes.schedule) (block_of l.initial.x) l.counter
