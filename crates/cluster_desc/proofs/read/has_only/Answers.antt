use Rattle.std.proofs.Common.{◌≡◌, ◌&&◌, String, Global, string_bytes, List, [], ◌∷◌, map, refl, ap, ◌∙◌, rules, tests}
use Rattle.std.specs.BTreeMap.{keys}
use Rattle.std.specs.List.{list_all, list_any}
use Rattle.std.proofs.lemmas.Iterator.Consumers.{YieldsList-from_rest}
use Rattle.std.proofs.lemmas.Iterator.Search.{all_from_yields_List}
use Rattle.std.specs.Str.{bytes_eq}
use Rattle.fuxi_terms.specs.ClusterKeys.{word_of}
use Rattle.fuxi_terms.specs.declared.cluster_key.ClusterKey.{ClusterKey}
use Rattle.serde_json.specs.View.{members_view}
use Rattle.serde_json.specs.declared.value.Value.{Value}
use Rattle.cluster_desc.specs.ClusterLine.{has_only}
use Rattle.cluster_desc.proofs.read.has_only.Goals as goal

each_name : (ks : List ClusterKey) (es : List (String Global × Value)) → list_all (λ (name : String Global). list_any (λ key. bytes_eq (word_of key) (string_bytes name)) ks) (map (λ (e : String Global × Value). e.0) es) ≡ has_only ks (members_view es)
each_name ks [] = refl
each_name ks (e ∷ es) = ap (λ b. list_any (λ key. bytes_eq (word_of key) (string_bytes e.0)) ks && b) (each_name ks es)

pub returns : goal.returns
returns c =
    all_from_yields_List (λ (name : String Global). list_any (λ key. bytes_eq (word_of key) (string_bytes name)) c.args.keys.now) _ _ _ c.all.ensures.ran (YieldsList-from_rest (keys c.args.members.now) c.keys.ensures.rest) (λ x b q k. search (rules, tests))
    ∙ each_name c.args.keys.now c.args.members.now.entries
