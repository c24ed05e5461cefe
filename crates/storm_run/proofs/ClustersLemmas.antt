-- The line of the cluster of a storm describes that cluster.
use Rattle.std.proofs.Common.{◌≡◌, Result, Ok, refl}
use lib.Utf8.{encode}
use Rattle.std.specs.Float.Numeral.{scan_numeral}
use Rattle.std.specs.Str.{is_utf8, chars}
use Rattle.json.specs.Json.{items, members, value}
use Rattle.json.specs.Lex.{lex, punctuate}
use Rattle.json.specs.Text.{content, code_unit, short_escape}
use Rattle.json.specs.Word.{word, after_number}
use Rattle.serde_json.specs.Read.{number_of}
use Rattle.cluster_desc.specs.ClusterLine.{cluster_of, value_of, cluster_at, object_of, value_at, number_between, array_between, numbers_of, quantities, machine_at, group_at}
use Rattle.storm_run.specs.declared.cluster.TheConstants.{CLUSTER_LINE}
use Rattle.cluster_desc.specs.declared.fault.ClusterFault.{ClusterFault}
use Rattle.fuxi_terms.specs.Cluster.{ClusterRecord}
use Rattle.storm_run.specs.Clusters.{storm_cluster}

pub described : cluster_of CLUSTER_LINE.now ≡ Ok storm_cluster
unfolding encode chars scan_numeral cluster_of value_of cluster_at object_of value_at number_between array_between numbers_of quantities machine_at group_at is_utf8 lex punctuate items members value number_of content word after_number code_unit short_escape
described = refl

pub same_ok : (r : Result ClusterRecord ClusterFault) (a b : ClusterRecord) → Ok a ≡ r → r ≡ Ok b → a ≡ b
same_ok r a b is_a is_b = cc
