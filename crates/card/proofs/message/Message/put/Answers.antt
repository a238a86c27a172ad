-- Label, parent's label and side, put one behind the other, are the message's form.
use Rattle.std.proofs.Common.{◌≡◌, sym, ap, ◌∙◌, List, [], ◌∷◌, ◌++◌, ℕ, ◌+◌, length, slice_set}
use Rattle.std.proofs.lemmas.List.Edits.{sets}
use Rattle.words.specs.Words.{bytes}
use Rattle.words.proofs.Stores.{sets-append}
use Rattle.tree.specs.Labels.{form}
use Rattle.card.proofs.message.Message.put.Goals as goal

form-stored : (s x : List ℕ) (o p side : ℕ)
    → slice_set (sets (sets s o x) (o + length x) (bytes 8 p)) (o + length x + 8) side ≡ sets s o (form x (bytes 8 p) side)
unfolding form
form-stored s x o p side =
    sym (sets-append s o x (bytes 8 p ++ (side ∷ [])) ∙ sets-append (sets s o x) (o + length x) (bytes 8 p) (side ∷ []))

pub returns : goal.returns
returns c =
    let m = c.args.self.now in
    let o = c.args.place in
    let e = o + length m.label.now in
    ap (λ (l : List ℕ). slice_set l (e + 8) m.side) (c.put-2.ensures ∙ ap (λ (l : List ℕ). sets l e (bytes 8 m.parent)) c.put.ensures)
    ∙ form-stored c.args.buffer.now m.label.now o m.parent m.side
