use Rattle.std.proofs.Common.{ℕ, List, ap, ◌∙◌, length, ◌++◌, ◌∷◌, []}
use Rattle.std.specs.List.{list_any}
use Rattle.std.specs.Str.{bytes_eq}
use Rattle.cfg_read.specs.NameTexts.{name_text, texts_of}
use Rattle.cfg_read.proofs.TextPlaces.{put_last, last_place, distinct_texts}
use Rattle.cfg_read.proofs.yacc.name.NameSet.put.Goals as goal

pub returns-clause-texts : goal.returns-clause-texts
returns-clause-texts c =
    let ks = c.self.inside.names.keys in
    let q = name_text c.args.name.now in
    let new = ap (list_any (bytes_eq q)) c.self.view_is ∙ c.requires in
    ap texts_of c.in_ok-place.ensures.keys ∙ put_last ks c.in_ok-clone.field-0 q c.in_ok-clone.ensures.cases.0 new ∙ ap (λ (ts : List (List ℕ)). ts ++ q ∷ []) c.self.view_is

pub returns-clause-last : goal.returns-clause-last
returns-clause-last c =
    let ks = c.self.inside.names.keys in
    let q = name_text c.args.name.now in
    let new = ap (list_any (bytes_eq q)) c.self.view_is ∙ c.requires in
    c.in_ok-place.ensures.index ∙ last_place ks c.in_ok-clone.field-0 q c.in_ok-clone.ensures.cases.0 new ∙ ap (λ (ts : List (List ℕ)). length ts) c.self.view_is

pub returns-clause-unique : goal.returns-clause-unique
returns-clause-unique c = distinct_texts c.insert_full.new.self.keys c.in_ok-place.ensures.unique
