-- laws of the programs and expressions that lines have
mod Laws
