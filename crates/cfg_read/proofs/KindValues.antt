-- The value of a kind stands for that kind, at whichever locations.
use Rattle.std.proofs.Common.{◌≡◌, ℕ, Bool, true, false, List, Option, Some, None, refl, sym, ◌∙◌, ap}
use Rattle.std.specs.Prelude.{option_map, if◌then◌else◌}
use lib.Chars.{codes}
use Rattle.cfg_sections.specs.HeaderTexts.{WordText, PathText, SettingText, unitary, construct, num, quoted, array, ValueText, flag, setting}
use Rattle.cfg_sections.specs.HeaderMaps.{map_word, map_path, map_setting, map_value}
use Rattle.cfg_read.specs.declared.yacc.YaccKind.{YaccKind}
use Rattle.cfg_read.specs.declared.yacc.YaccKind.TheVariants as kinds
use Rattle.cfg_read.specs.declared.yacc.YaccOriginalActionKind.{YaccOriginalActionKind}
use Rattle.cfg_read.specs.declared.yacc.YaccOriginalActionKind.TheVariants as actions
use Rattle.cfg_read.specs.Kinds.{is_word, Meaning, means, unfit, kind_named, action_named, within, meaning_or, action_or, argument_meaning, alone_meaning, applied_meaning, setting_meaning, meaning_of, LocationText, value_of}

module _ {L M : Type 0} (f : L → M) where
  abbrev map_meaning : Meaning L → Meaning M
  map_meaning (means k) = means k
  map_meaning (unfit why at) = unfit why (f at)

  map_if : (b : Bool) (m n : Meaning L) → (if b then map_meaning m else map_meaning n) ≡ map_meaning (if b then m else n)
  map_if true m n = refl
  map_if false m n = refl

  map_within : (n : Option (WordText L)) (name : List ℕ) (m : Meaning L) → within (option_map (map_word f) n) name (map_meaning m) ≡ map_meaning (within n name m)
  map_within None name m = refl
  map_within (Some w) name m = map_if (is_word w.text name) m (unfit (codes "Unknown namespace") w.at)

  map_kind : (w : WordText L) (o : Option YaccKind) → meaning_or (map_word f w) o ≡ map_meaning (meaning_or w o)
  map_kind w None = refl
  map_kind w (Some k) = refl

  map_action : (w : WordText L) (o : Option YaccOriginalActionKind) → action_or (map_word f w) o ≡ map_meaning (action_or w o)
  map_action w None = refl
  map_action w (Some a) = refl

  map_argument : (p : PathText L) → argument_meaning (map_path f p) ≡ map_meaning (argument_meaning p)
  map_argument p =
      ap (within (option_map (map_word f) p.namespace) (codes "YaccOriginalActionKind")) (map_action p.member (action_named p.member.text))
      ∙ map_within p.namespace (codes "YaccOriginalActionKind") (action_or p.member (action_named p.member.text))

  map_alone : (p : PathText L) → alone_meaning (map_path f p) ≡ map_meaning (alone_meaning p)
  map_alone p =
      ap (within (option_map (map_word f) p.namespace) (codes "YaccKind")) (map_kind p.member (kind_named p.member.text))
      ∙ map_within p.namespace (codes "YaccKind") (meaning_or p.member (kind_named p.member.text))

  map_choice : (b : Bool) (q : PathText L) (n : Meaning L) → (if b then argument_meaning (map_path f q) else map_meaning n) ≡ map_meaning (if b then argument_meaning q else n)
  map_choice true q n = map_argument q
  map_choice false q n = refl

  map_applied : (p q : PathText L) → applied_meaning (map_path f p) (map_path f q) ≡ map_meaning (applied_meaning p q)
  map_applied p q =
      ap (within (option_map (map_word f) p.namespace) (codes "YaccKind")) (map_choice (is_word p.member.text (codes "Original")) q (unfit (codes "Unknown variant") p.member.at))
      ∙ map_within p.namespace (codes "YaccKind") (if is_word p.member.text (codes "Original") then argument_meaning q else unfit (codes "Unknown variant") p.member.at)

  map_of_setting : (s : SettingText L) → setting_meaning (map_setting f s) ≡ map_meaning (setting_meaning s)
  map_of_setting (unitary p) = map_alone p
  map_of_setting (construct p q) = map_applied p q
  map_of_setting (num n l) = refl
  map_of_setting (quoted t l) = refl
  map_of_setting (array items start end) = refl

  map_of_value : (v : ValueText L) → meaning_of (map_value f v) ≡ map_meaning (meaning_of v)
  map_of_value (setting s) = map_of_setting s
  map_of_value (flag b l) = refl

  means_back : (m : Meaning L) (k : YaccKind) → map_meaning m ≡ means k → m ≡ means k
  means_back (means l) k e = cc
  means_back (unfit why at) k e = absurd cc

-- as the words compute
value_means : (k : YaccKind) → meaning_of (value_of k) ≡ means k
unfolding is_word kind_named action_named
value_means kinds.Grmtools = refl
value_means kinds.Eco = refl
value_means (kinds.Original actions.UserAction) = refl
value_means (kinds.Original actions.GenericParseTree) = refl
value_means (kinds.Original actions.NoAction) = refl

pub comes_back : {L : Type 0} (f : L → LocationText) (v : ValueText L) (k : YaccKind) → map_value f v ≡ value_of k → meaning_of v ≡ means k
comes_back f v k e = means_back f (meaning_of v) k (sym (map_of_value f v) ∙ (ap meaning_of e ∙ value_means k))
