-- A kernel of lines that take no name twice has whatever a name stands for.
use Rattle.kernel_names.specs.Roles.{declarations_of}
use Rattle.kernel_formed.specs.NameLaws.{NamesAreDeclared}
use Rattle.kernel_formed.proofs.PartNames.{names_of_parts}
use Rattle.kernel_formed.proofs.KernelNames.{has_names, variables_differ}
use Rattle.kernel_formed.proofs.RolesInKernel.{kernel_there, parameters_there, parameters_alone, body_there, body_alone, stored_there}
use Rattle.kernel_formed.proofs.RuleNames.{own_are_variables}

pub names_declared : NamesAreDeclared
names_declared K entries lines untaken identifiers =
    let h = names_of_parts K entries lines in
    let D = declarations_of entries in
    let kernel = kernel_there K entries h untaken in
    let parameters = parameters_there K D kernel in
    let names = has_names K entries h untaken identifiers in
    record {
      names = names;
      variables = variables_differ K names;
      kernel = kernel;
      parameters = parameters;
      parameters_alone = parameters_alone D;
      body = λ own. body_there K D own parameters;
      body_alone = body_alone D;
      stored = stored_there K entries h untaken;
      own = own_are_variables entries untaken;
    }
