-- The rules, computed from the definitions.
use mathlib.Core.Path.{refl}
use Rattle.tree.specs.Numbers.{be}
use Rattle.tree.specs.Layout.{size, offset}
use Rattle.tree.specs.Nodes.{up_to, path_node, sibling, path, pairs_but_leaf, all_nodes}
use Rattle.tree.specs.Labels.{form}
use Rattle.tree.specs.Ranges.{ranges_to, encode}
use Rattle.tree.specs.Limits.{first_failing}
use Rattle.tree.specs.Calls.{limits, checks, format_answer}
use Rattle.scope.specs.Rules.{Rules}

pub rules : Rules
unfolding be form encode ranges_to size offset up_to path_node sibling path pairs_but_leaf all_nodes checks limits first_failing
    format_answer
rules =
    record {
      number = refl;
      even-message = λ L. refl;
      odd-message = λ L. refl;
      range-list = refl;
      read-checks = λ buffer. refl;
      write-checks = λ block ranges. refl;
      check-checks = refl;
      read-limits = λ a card i buffer. refl;
      write-limits = λ a card i block ranges. refl;
      check-limits = λ a card. refl;
      format-depth = (refl, refl);
      format-card = refl;
      journal-number = refl;
      whole-number = refl;
      wrong-number = λ u. refl;
    }
