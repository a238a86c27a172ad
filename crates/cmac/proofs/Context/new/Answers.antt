use Rattle.std.proofs.Common.{ℕ, ◌≡◌, List, ◌++◌, length, ap, ap₂, ◌∙◌}
use Rattle.std.proofs.lemmas.List.Edits.{sets}
use Rattle.words.specs.Words.{block_of}
use Rattle.cipher.specs.Cipher.{cipher_of, encrypt_of}
use Rattle.cipher.proofs.Rounds.{cipher-of-key}
use Rattle.cmac.specs.Cmac.{double, subkey1, subkey2}
use Rattle.cmac.specs.Context.{subkeys_of}
use Rattle.cmac.specs.Traced.{subkeys_traced, subkeys_count}
use Rattle.cmac.proofs.Laws.{tag-of-zeros}
use Rattle.cmac.proofs.TraceLaws.{count-of-zeros}
use Rattle.cmac.proofs.Context.new.Goals as goal

pub returns : goal.returns
unfolding subkeys_of subkeys_count subkey1 subkey2
returns c =
    let schedule = c.new-aes.result.schedule in
    let e : cipher_of schedule ≡ encrypt_of c.args.key = ap cipher_of c.new-aes.ensures ∙ cipher-of-key c.args.key in
    let e1 : block_of c.doubled-first.result ≡ subkey1 (cipher_of schedule) =
    c.doubled-first.ensures ∙ ap double (c.tag_under-made.ensures.value ∙ tag-of-zeros schedule) in
    record {
      schedule = c.new-aes.ensures;
      subkeys =
          c.put-2.ensures
          ∙ ap (λ (l : List ℕ). sets l 16 (block_of c.doubled.result)) c.put.ensures
          ∙ ap₂ ◌++◌ e1 (c.doubled.ensures ∙ ap double e1)
          ∙ ap (λ (e : List ℕ → List ℕ). subkey1 e ++ subkey2 e) e;
      counted =
          c.tag_under-made.ensures.count ∙ count-of-zeros schedule ∙ ap (λ (e : List ℕ → List ℕ). length (subkeys_traced e).trace) e;
    }
