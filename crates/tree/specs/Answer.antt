-- What a call answers, the papers' number of it and the node that it names, and how the code gives it back.
use Rattle.std.specs.Prelude.{ℕ, Bool, true, false, Result, Ok, Err}
use Rattle.tree.specs.declared.Node.{Node}
use Rattle.tree.specs.declared.Error.{Error}
use Rattle.tree.specs.declared.Error.TheVariants.{WrongTag, Limit}
use Rattle.tree.specs.declared.Refusal.{Refusal}
use Rattle.tree.specs.declared.Refusal.TheVariants.{Depth, RootNonce, CardLength, BlockNumber, BlockLength, RangeLength, NoncesSpent}
use Rattle.tree.specs.declared.Refusal.TheVariants.{NotAwaited, Journal}

-- every tag that it checked is right, and it is accepted; or the first one that is wrong; or a refusal
pub data Answer : Type 0 where
  Whole : Answer
  Wrong : (u : Node) → Answer
  Refused : (r : Refusal) → Answer

abbrev pub refusal_number : Refusal → ℕ
refusal_number Depth = 1
refusal_number RootNonce = 2
refusal_number CardLength = 3
refusal_number BlockNumber = 4
refusal_number BlockLength = 5
refusal_number RangeLength = 6
refusal_number NoncesSpent = 7
refusal_number NotAwaited = 9
refusal_number Journal = 10

abbrev pub number_of : Answer → ℕ
number_of Whole = 0
number_of (Wrong u) = 8
number_of (Refused r) = refusal_number r

-- 0 where none is named
abbrev pub node_of : Answer → ℕ
node_of Whole = 0
node_of (Wrong u) = u.0
node_of (Refused r) = 0

abbrev pub is_whole : Answer → Bool
is_whole Whole = true
is_whole (Wrong u) = false
is_whole (Refused r) = false

-- the answer that an error stands for
abbrev pub refused_as : Error → Answer
refused_as (WrongTag u) = Wrong u
refused_as (Limit r) = Refused r

-- the answer of a call that gives back a value where it is accepted
abbrev pub answer_in : {A : Type 0} → Result A Error → Answer
answer_in (Ok x) = Whole
answer_in (Err e) = refused_as e

-- the same of a call that checks no tag
abbrev pub limited_in : {A : Type 0} → Result A Refusal → Answer
limited_in (Ok x) = Whole
limited_in (Err r) = Refused r
