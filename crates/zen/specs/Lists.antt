-- The two lists of names that a package has (document 01, "zen.rs": a name batch behind the summary, and one of imported names).
use Rattle.batch.specs.declared.names.Names.{Names}
use Rattle.zen.specs.declared.zen.Layout.{Layout}
use Rattle.zen.specs.declared.zen.NameList.{NameList}
use Rattle.zen.specs.declared.zen.NameList.TheVariants.{Own, Imported}

-- where a list is
abbrev pub names_in : Layout → NameList → Names
names_in l Own = l.names
names_in l Imported = l.imported
